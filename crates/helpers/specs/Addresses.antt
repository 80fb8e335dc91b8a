-- An address: a number of the width of offsets, or, where all its bits are ones (V, undefined address), undefined. Assumes nothing: these are
-- definitions.
use Rattle.std.specs.Prelude.{ℕ, eqb}
use Rattle.format.specs.Bytes.{all_ones}
use Rattle.format.specs.Format.{Format, done, refuse, number, bind, pick}
use Rattle.records.specs.declared.Address.{Address}
use Rattle.records.specs.declared.Address.TheVariants as addresses

-- what a number in w bytes is as an address
abbrev pub address_of : ℕ → ℕ → Address
address_of w n = pick (eqb n (all_ones w)) addresses.Undefined (addresses.Number n)

unfoldable pub address : ℕ → Format Address
address w = number w (λ n. done (address_of w n))

-- the number of an address; the undefined one is refused
abbrev pub defined : ℕ → Address → Format ℕ
defined refusal addresses.Undefined = refuse refusal
defined refusal (addresses.Number n) = done n

-- an address that may not be undefined
unfoldable pub defined_address : ℕ → ℕ → Format ℕ
defined_address w refusal = bind (address w) (defined refusal)
