pub mod Diagnosis
unfoldable pub use Diagnosis.{general, identity, operating_octet, report, values, versions}
pub use Diagnosis.{diagnosis, diagnosis_octets, diagnosis_refusal, four_numbers, length_by}
