mod Arms
mod Covered
mod Dues
mod Followed
mod Numbers
mod Ports
mod Sets
