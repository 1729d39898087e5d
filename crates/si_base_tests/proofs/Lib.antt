mod Vectors
mod Postings
mod Drops
mod Nodes
