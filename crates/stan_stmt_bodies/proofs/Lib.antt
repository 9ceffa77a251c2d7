pub mod Unrolled
