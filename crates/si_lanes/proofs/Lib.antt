mod Bits
mod Kernel
mod Filtering
