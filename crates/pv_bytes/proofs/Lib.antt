pub mod KitNumbers
