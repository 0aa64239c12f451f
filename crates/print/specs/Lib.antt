-- Page: a buffer that is written from its start, as far as it has room; Puts: what code's page stands for, and what a call puts on it.
pub mod Page
pub mod Puts
