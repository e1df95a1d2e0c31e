mod Steps
mod Asks
mod Lists
mod InsideLemmas
