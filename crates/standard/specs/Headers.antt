-- IV.A.1.b, version 2 object headers, and IV.A.2.q, their continuation. Assumes nothing: these are definitions.
use Rattle.std.specs.Prelude.{ℕ, ◌+◌, ◌*◌, ◌%◌, eqb}
use Rattle.format.specs.Bits.{bit}
use Rattle.format.specs.Format.{Format, done, number, bind, pick}
use Rattle.standard.specs.Fields.{Optional, Address, Bytes, only, optional, address, raw}

-- four ASCII characters in their order, as a number whose lowest byte is the first
abbrev pub characters : ℕ → ℕ → ℕ → ℕ → ℕ
characters a b c d = a + 256 * (b + 256 * (c + 256 * d))

-- Layout: Version 2 Object Header, up to the first message
pub record ObjectHeaderPrefix : Type 0 where
  pub signature : ℕ
  pub version : ℕ
  pub flags : ℕ
  pub access_time : Optional ℕ
  pub modification_time : Optional ℕ
  pub change_time : Optional ℕ
  pub birth_time : Optional ℕ
  pub maximum_number_of_compact_attributes : Optional ℕ
  pub minimum_number_of_dense_attributes : Optional ℕ
  pub size_of_chunk_0 : ℕ

-- flags, bits 0-1: how many bytes the size of chunk #0 has
abbrev pub size_of_size_of_chunk0 : ℕ → ℕ
size_of_size_of_chunk0 flags = pick (eqb (flags % 4) 0) 1 (pick (eqb (flags % 4) 1) 2 (pick (eqb (flags % 4) 2) 4 8))

-- `OHDR`; bit 5 of the flags brings the four times, bit 4 the two numbers of attributes
unfoldable pub object_header_prefix : Format ObjectHeaderPrefix
object_header_prefix =
    number 4 (λ signature.
    only (eqb signature (characters 0x4F 0x48 0x44 0x52)) (
    number 1 (λ version.
    only (eqb version 2) (
    number 1 (λ flags.
    bind (optional (bit flags 5) 4) (λ access_time.
    bind (optional (bit flags 5) 4) (λ modification_time.
    bind (optional (bit flags 5) 4) (λ change_time.
    bind (optional (bit flags 5) 4) (λ birth_time.
    bind (optional (bit flags 4) 2) (λ maximum_number_of_compact_attributes.
    bind (optional (bit flags 4) 2) (λ minimum_number_of_dense_attributes.
    number (size_of_size_of_chunk0 flags) (λ size_of_chunk_0.
    done {A = ObjectHeaderPrefix} (record {
      signature = signature;
      version = version;
      flags = flags;
      access_time = access_time;
      modification_time = modification_time;
      change_time = change_time;
      birth_time = birth_time;
      maximum_number_of_compact_attributes = maximum_number_of_compact_attributes;
      minimum_number_of_dense_attributes = minimum_number_of_dense_attributes;
      size_of_chunk_0 = size_of_chunk_0;
    })))))))))))))

-- the fields of a header message before its data
pub record MessagePrefix : Type 0 where
  pub header_message_type : ℕ
  pub size_of_header_message_data : ℕ
  pub header_message_flags : ℕ
  pub header_message_creation_order : Optional ℕ

-- bit 2 of the header's flags brings the creation order
unfoldable pub message_prefix : ℕ → Format MessagePrefix
message_prefix header-flags =
    number 1 (λ header_message_type.
    number 2 (λ size_of_header_message_data.
    number 1 (λ header_message_flags.
    bind (optional (bit header-flags 2) 2) (λ header_message_creation_order.
    done {A = MessagePrefix} (record {
      header_message_type = header_message_type;
      size_of_header_message_data = size_of_header_message_data;
      header_message_flags = header_message_flags;
      header_message_creation_order = header_message_creation_order;
    })))))

-- a header message: its prefix, and as many bytes of data as its size says
pub record HeaderMessage : Type 0 where
  pub prefix : MessagePrefix
  pub header_message_data : Bytes

unfoldable pub header_message : ℕ → Format HeaderMessage
header_message header-flags =
    bind (message_prefix header-flags) (λ prefix.
    bind (raw prefix.size_of_header_message_data) (λ header_message_data.
    done {A = HeaderMessage} (record { prefix = prefix; header_message_data = header_message_data })))

-- Layout: Object Header Continuation Message
pub record ContinuationMessage : Type 0 where
  pub offset : Address
  pub length : ℕ

unfoldable pub continuation_message : ℕ → ℕ → Format ContinuationMessage
continuation_message size_of_offsets size_of_lengths =
    bind (address size_of_offsets) (λ offset.
    number size_of_lengths (λ length.
    done {A = ContinuationMessage} (record { offset = offset; length = length })))

-- Layout: Version 2 Object Header Continuation Block, its signature, `OCHK`
unfoldable pub continuation_signature : Format ℕ
continuation_signature = number 4 (λ signature. only (eqb signature (characters 0x4F 0x43 0x48 0x4B)) (done signature))
