pub mod AsGoing
