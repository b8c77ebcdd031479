-- files that are checked in turn
mod CheckedFiles
