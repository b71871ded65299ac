mod Numbers
mod Rows
mod Texts
