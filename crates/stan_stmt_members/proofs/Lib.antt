pub mod ParameterLemmas
pub mod MethodLemmas
pub mod FieldLemmas
pub mod MemberLemmas
