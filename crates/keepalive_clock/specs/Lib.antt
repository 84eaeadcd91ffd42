pub mod KeepAlive
