mod Asked
mod FirstPlace
mod SameTexts
mod Joining
mod Sorting
