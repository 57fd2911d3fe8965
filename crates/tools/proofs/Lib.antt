pub mod SeatsBack
