pub mod RecordsText
