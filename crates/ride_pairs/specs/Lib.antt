pub mod RideBeside
