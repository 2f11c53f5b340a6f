pub mod ImportTrees
pub mod ImportRanges
pub mod ImportRecords
pub mod Imports
pub mod RowsInRecord
pub mod FirstRows
pub mod ImportClashes
pub mod ImportRows
mod UntilLast
pub mod ImportNotes
pub mod ImportReading
pub mod FirstPlaces
pub mod Knowing
pub mod KnownClashes
pub mod KnownRows
mod Lookups
pub mod FewRows
pub mod RowLines
pub mod FaultLines
pub mod ImportForms
pub mod ImportQuotes
pub mod ImportAbove
pub mod HeadingFirst
pub mod WrittenQuotes
mod ImportMaps
pub mod Trimmed
pub mod SameLetters
pub mod KeyedLines
pub mod FilledLines
pub mod ChosenNames
mod NamesApart
pub mod SheetReading
pub mod PrintedTables
mod KeptFields
mod SkippedTexts
mod RowsBefore
