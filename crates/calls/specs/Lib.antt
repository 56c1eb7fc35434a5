pub mod CallBytes
