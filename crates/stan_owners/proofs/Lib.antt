pub mod OwnerLemmas
