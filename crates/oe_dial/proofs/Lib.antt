mod Endings
mod Hosts
mod Inputs
mod ListLemmas
mod Ports
mod Sayings
mod Spellings
