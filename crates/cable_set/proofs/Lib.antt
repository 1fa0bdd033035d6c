-- What the walks of this crate mean.
pub mod AloneSetLaws
