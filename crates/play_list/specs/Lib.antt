pub mod PlayList
