-- The definitions of snap_certify, by their modules.
pub mod Certification
pub mod Certificate
pub mod Finding
pub mod CertificationText
pub mod Output
