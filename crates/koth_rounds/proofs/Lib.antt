mod Delivered
mod Numbers
mod Paged
mod Written
