pub mod ObjectsLine
