pub mod BothTests
