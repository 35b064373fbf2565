mod Numbers
mod Laying
