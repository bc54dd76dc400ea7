pub mod TableLine
