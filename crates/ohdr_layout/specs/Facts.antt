-- What the proof of the data at an address cites. Assumes nothing.
use Rattle.std.specs.Prelude.{ℕ, ◌+◌, ◌-◌, ◌≤◌, ◌<◌, min, ◌≡◌, List, length, take, drop}
use Rattle.std.proofs.Common.{ap, ◌∙◌, arith, length-take, length-drop}

-- n bytes from a on: as many as asked for where the file has them, and else fewer
module _ (s : List ℕ) (a n : ℕ) {part : List ℕ} (e : part ≡ take n (take (length s - a) (drop a s))) where
  part_length : length part ≡ min n (min (length s - a) (length s - a))
  part_length = ap length e ∙ length-take n (take (length s - a) (drop a s)) ∙ ap (min n) (length-take (length s - a) (drop a s) ∙ ap (min (length s - a)) (length-drop a s))

  pub part_whole : a ≤ length s → n ≤ length part → a + n ≤ length s
  part_whole h k = omega (arith, part_length)

  pub part_cut : a ≤ length s → length part < n → length s < a + n
  part_cut h k = omega (arith, part_length)
