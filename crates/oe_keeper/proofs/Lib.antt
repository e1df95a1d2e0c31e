mod Entries
mod FindLemmas
mod ItemLemmas
mod Memories
mod OneLemmas
mod RestoreLemmas
