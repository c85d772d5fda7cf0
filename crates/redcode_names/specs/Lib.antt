-- what a function answers if memory may run out
pub mod Gives
-- EQU: names that stand for tokens, and their replacement
pub mod Equ
-- labels, the names of EQU lines and the predefined names
pub mod Name
-- which EQU a token names, and what the code writes of tokens
pub mod Written
-- and what it keeps of EQUs
pub mod Cut
-- what a replacement takes in steps
pub mod Steps
