pub mod Consist
