pub mod OctetLaws
