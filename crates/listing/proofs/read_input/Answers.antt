-- A read puts what it takes from the input behind what stands at the buffer's start.
use Rattle.std.proofs.Common.{◌≡◌, ℕ, ◌+◌, ◌≤◌, List, ◌++◌, rules, length, take, sym, ap, ◌∙◌, subst, le_refl, drop_at, length-take-le}
use Rattle.std.proofs.lemmas.Slice.{take-put_mid_below}
use Rattle.std.proofs.KnownBytes.{Consumes-trans}
use Rattle.std.specs.Io.KnownBytes.{Consumes}
use borrow.Rule.Slice.PartMut.{put_mid, post_of}
use lib.Seq.{take-add, take-append-le}
use Rattle.listing.proofs.read_input.Goals as goal

take_further : (a k n : ℕ) (xs ys : List ℕ) → a ≤ length xs → n ≤ length ys → take a xs ++ take n ys ≡ take (a + n) (put_mid a k xs ys)
take_further a k n xs ys within fits =
    let after = post_of a k xs in
    let behind = drop_at (take a xs) (ys ++ after) a (length-take-le a xs within) in
    ap (λ l. l ++ take n ys) (sym (take-put_mid_below a k xs ys a (le_refl _) within))
    ∙ ap (λ l. take a (put_mid a k xs ys) ++ l) (sym (ap (take n) behind ∙ take-append-le n ys after fits))
    ∙ sym (take-add a n (put_mid a k xs ys))

pub loop-n-preserved : goal.loop-n-preserved
loop-n-preserved g c =
    let before = c.loop-n.invariant in
    let got = c.in_ok-more.ensures in
    record {
      inside = search rules;
      bytes = subst (Consumes _ _) (take_further _ _ _ _ _ before.inside got.bound.0) (Consumes-trans _ _ _ _ _ before.bytes got.bytes.0);
    }
