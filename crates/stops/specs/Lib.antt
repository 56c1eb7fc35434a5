pub mod StopLines
