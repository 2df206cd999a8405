pub mod PartLaws
pub mod DiagnosisLaws
