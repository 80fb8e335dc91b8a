-- The sizes of a form, and that a form that a datatype has is of that datatype's size. Assumes nothing.
use Rattle.std.specs.Prelude.{ℕ, ◌*◌, ◌%◌, ◌≤◌, ◌≡◌, refl, Bool, true, false, ◌&&◌, leb, eqb, Option, Some, None}
use Rattle.std.proofs.Common.{arith, ne_eqb, eqb-true, leb-true, leb-false}
use Rattle.format.specs.Bools.{and_left, and_right}
use Rattle.format.specs.Format.{pick}
use Rattle.records.specs.declared.DataFormat.TheVariants as formats
use Rattle.records.specs.declared.DataType.{DataType}
use Rattle.number_form.specs.declared.NumberForm.{NumberForm}
use Rattle.number_form.specs.declared.NumberForm.TheVariants as forms
use Rattle.number_form.specs.Forms.{is_signed, whole_size, fixed_form, is_float, float_form, form_of, number_form, Sized}
use Rattle.records.specs.declared.DataFormat.{DataFormat}

-- the sizes of a whole number
pub last_size : {n : ℕ} → whole_size n ≡ true → (n ≡ 1 → ⊥) → (n ≡ 2 → ⊥) → (n ≡ 4 → ⊥) → n ≡ 8
unfolding whole_size
last_size {n} e a b d =
    let f : eqb n 8 ≡ true = rw (ne_eqb n 1 a, ne_eqb n 2 b, ne_eqb n 4 d) at e in
    eqb-true n 8 f

pub small_size : {n : ℕ} → whole_size n ≡ true → n ≤ 8
small_size {n} e = go (leb n 8) refl
  where
    go : (t : Bool) → leb n 8 ≡ t → n ≤ 8
    go true f = leb-true n 8 f
    go false f = let h = leb-false n 8 f in let d = last_size e (λ z. omega arith) (λ z. omega arith) (λ z. omega arith) in omega arith

pub some_size : {n : ℕ} → whole_size n ≡ true → 1 ≤ n
some_size {n} e = go (leb 1 n) refl
  where
    go : (t : Bool) → leb 1 n ≡ t → 1 ≤ n
    go true f = leb-true 1 n f
    go false f = let h = leb-false 1 n f in let d = last_size e (λ z. omega arith) (λ z. omega arith) (λ z. omega arith) in omega arith

pub sized_whole : (form : NumberForm) (size : ℕ) → Sized form size → whole_size size ≡ true
unfolding whole_size
sized_whole forms.Unsigned size h = h
sized_whole forms.Signed size h = h
sized_whole forms.Single size h = rw h
sized_whole forms.Double size h = rw h

-- none is no form
pub no_form : {P : Type 0} {form : NumberForm} → None ≡ Some form → P
no_form e = let z : ◌≡◌ {A = ℕ} 0 1 = cc in absurd (omega arith)

-- a form that a datatype has is of that datatype's size
fixed_sized : (bits size offset precision : ℕ) (form : NumberForm) → fixed_form bits size offset precision ≡ Some form → Sized form size
unfolding fixed_form
fixed_sized bits size offset precision form e = go (whole_size size && (eqb offset 0 && eqb precision (8 * size))) refl (is_signed bits) e
  where
    go : (t : Bool) → (whole_size size && (eqb offset 0 && eqb precision (8 * size))) ≡ t → (u : Bool) → pick t (Some (pick u forms.Signed forms.Unsigned)) None ≡ Some form → Sized form size
    go true e true f = let i : forms.Signed ≡ form = cc in rw (← i) (and_left (whole_size size) (eqb offset 0 && eqb precision (8 * size)) e)
    go true e false f = let i : forms.Unsigned ≡ form = cc in rw (← i) (and_left (whole_size size) (eqb offset 0 && eqb precision (8 * size)) e)
    go false e u f = no_form f

float_size : (bits size precision w : ℕ) → is_float bits size precision w ≡ true → size ≡ w
unfolding is_float
float_size bits size precision w e = eqb-true size w (and_left (eqb size w) _ (and_right (eqb precision (8 * w)) _ e))

float_sized : (bits size precision : ℕ) (form : NumberForm) → float_form bits size precision ≡ Some form → Sized form size
unfolding float_form
float_sized bits size precision form e = go (is_float bits size precision 4) refl (is_float bits size precision 8) refl e
  where
    go : (t : Bool) → is_float bits size precision 4 ≡ t → (u : Bool) → is_float bits size precision 8 ≡ u
        → pick t (Some forms.Single) (pick u (Some forms.Double) None) ≡ Some form → Sized form size
    go true e u d f = let i : forms.Single ≡ form = cc in rw (← i) (float_size bits size precision 4 e)
    go false e true d f = let i : forms.Double ≡ form = cc in rw (← i) (float_size bits size precision 8 d)
    go false e false d f = no_form f

pub form_sized : (d : DataType) (form : NumberForm) → number_form d ≡ Some form → Sized form d.size
unfolding number_form
form_sized d form e = by_format (d.class_and_version % 16) d.class_bit_field d.size d.data_fmt e
  where
    by_class : (F : Option NumberForm) (size : ℕ) (t : Bool) → (F ≡ Some form → Sized form size) → pick t F None ≡ Some form → Sized form size
    by_class F size true h f = h f
    by_class F size false h f = no_form f

    by_format : (class bits size : ℕ) (f : Option DataFormat) → form_of class bits size f ≡ Some form → Sized form size
    by_format class bits size None f = no_form f
    by_format class bits size (Some (formats.Fixed offset precision)) f = by_class (fixed_form bits size offset precision) size (eqb class 0) (fixed_sized bits size offset precision form) f
    by_format class bits size (Some (formats.Float x)) f = by_class (float_form bits size x.bit_precision) size (eqb class 1) (float_sized bits size x.bit_precision form) f
