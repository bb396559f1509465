pub mod Interrupting
