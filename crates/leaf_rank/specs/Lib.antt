pub mod Inherited
