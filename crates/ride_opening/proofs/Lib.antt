pub mod SeedFigures
