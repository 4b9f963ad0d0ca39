pub mod ByOid
