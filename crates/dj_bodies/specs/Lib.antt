-- What contracts inside the crate rest on; that of `type_body` rests on `dj_typed` alone.
pub mod Said
