-- The number of each refusal. Assumes nothing: these are definitions.
use Rattle.std.specs.Prelude.{ℕ}
use Rattle.records.specs.declared.Refusal.{Refusal}
use Rattle.records.specs.declared.Refusal.TheVariants as refusals

abbrev pub refusal_number : Refusal → ℕ
refusal_number refusals.Width = 1
refusal_number refusals.FileSize = 2
refusal_number refusals.Short = 3
refusal_number refusals.Signature = 4
refusal_number refusals.Version = 5
refusal_number refusals.HeaderFlags = 6
refusal_number refusals.ChunkSize = 7
refusal_number refusals.EntryFlags = 8
refusal_number refusals.DataSpace = 9
refusal_number refusals.LinkInfo = 10
refusal_number refusals.DataType = 11
refusal_number refusals.DataFill = 12
refusal_number refusals.DataLayout = 13
refusal_number refusals.Chunked = 14
refusal_number refusals.GroupInfo = 15
refusal_number refusals.FilterPipeline = 16
refusal_number refusals.Attribute = 17
refusal_number refusals.AttributeInfo = 18
refusal_number refusals.ContinuationRange = 19
refusal_number refusals.ContinuationSignature = 20
refusal_number refusals.BlockLevel = 21
refusal_number refusals.TypeLevel = 22
refusal_number refusals.Entries = 23
refusal_number refusals.Table = 24
refusal_number refusals.SuperBlockSignature = 25
refusal_number refusals.SuperBlockVersion = 26
refusal_number refusals.BaseAddress = 27
refusal_number refusals.Checksum = 28
refusal_number refusals.Names = 29
