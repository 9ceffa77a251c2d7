pub mod TextSet
