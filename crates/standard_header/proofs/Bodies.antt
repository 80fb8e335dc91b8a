-- What stands in the body of a message is the specification's message of its type. Assumes nothing.
use Rattle.std.specs.Prelude.{ℕ, ◌≤◌, ◌≡◌, refl, Bool, true, false, List, eqb}
use Rattle.std.proofs.Common.{ap, arith, eqb-true}
use Rattle.std.proofs.lemmas.Bool.{eqb-false}
use Rattle.format.specs.Format.{Format, done, bind, pick, Stands}
use Rattle.format.specs.Standing.{stands_bind}
use Rattle.records.specs.declared.DataLayout.{DataLayout}
use Rattle.records.specs.declared.DataSpace.{DataSpace}
use Rattle.records.specs.declared.LinkInfo.{LinkInfo}
use Rattle.records.specs.declared.GroupInfo.{GroupInfo}
use Rattle.records.specs.declared.AttributeInfo.{AttributeInfo}
use Rattle.records.specs.declared.DataType.{DataType}
use Rattle.records.specs.declared.Attribute.{Attribute}
use Rattle.records.specs.Numbers.{value_text, value_case, value_bits}
use Rattle.parser.specs.declared.State.{State}
use Rattle.grammar.specs.Message.{Kept}
use Rattle.grammar.specs.Message as messages
use Rattle.ohdr_info.specs.Info.{link_info, group_info, attribute_info}
use Rattle.ohdr_storage.specs.Storage.{fill_old, fill, filter_pipeline}
use Rattle.ohdr_layout.specs.DataLayouts.{data_layout}
use Rattle.ohdr_datatype.specs.DataTypes.{data_type, type_levels}
use Rattle.ohdr_dataspace.specs.DataSpaces.{data_space}
use Rattle.ohdr_attribute.specs.Attributes.{attribute}
use Rattle.ohdr_entry.specs.Entries.{body, plain_body, layout_body, attribute_body}
use Rattle.standard_messages.proofs.Dataspaces.{dataspace_tied}
use Rattle.standard_messages.proofs.Infos.{link_info_tied, group_info_tied, attribute_info_tied}
use Rattle.standard_messages.proofs.Layouts.{fill_value_old_tied, data_layout_tied}
use Rattle.standard_messages.proofs.Fills.{fill_value_tied}
use Rattle.standard_messages.proofs.Filters.{filter_pipeline_tied}
use Rattle.standard_datatype.proofs.Ties.{datatype_tied, header_fields_tied}
use Rattle.standard_attribute.proofs.Ties.{attribute_tied, name_tied}
use Rattle.standard_attribute.proofs.Values.{text_value_lem, number_value_lem, value_is_read}
use Rattle.standard_header.specs.Is.{SpaceAt, LinkInfoAt, LayoutAt, AttributeInfoAt, TextAt, NumberAt, ValueAt, GroupInfoAt, TypeAt, BodyIs, dataspace, link_info_lem, datatype, fill_value_old_lem, fill_value, data_layout_lem, group_info_lem, filter_pipeline_lem, attribute_message_lem, attribute_info_lem, not_read}

module _ (file : List ℕ) (s : State) where
  pub space_at : (b q : ℕ) (d : DataSpace) → Stands file (data_space s) b q d → SpaceAt file s b q d
  space_at b q d h = (dataspace_tied s).ties file b q d h

  pub link_info_at : (b q : ℕ) (l : LinkInfo) → Stands file (link_info s) b q l → LinkInfoAt file s b q l
  link_info_at b q l h = (link_info_tied s).ties file b q l h

  pub layout_at : (b q : ℕ) (l : DataLayout) → Stands file (data_layout s) b q l → LayoutAt file s b q l
  layout_at b q l h = (data_layout_tied s).ties file b q l h

  pub attribute_info_at : (b q : ℕ) (a : AttributeInfo) → Stands file (attribute_info s) b q a → AttributeInfoAt file s b q a
  attribute_info_at b q a h = (attribute_info_tied s).ties file b q a h

  value_at : (b q : ℕ) (a : Attribute) → Stands file (attribute s) b q a → ValueAt file s b q a.value
  value_at b q a i = (text, number)
    where
      text : TextAt file s b q (value_text a.value)
      text longest levels upto x h r =
          let v = value_is_read file s b upto q _ _ a (text_value_lem file s longest levels b upto x h r) i in
          (v.0, (v.1.0, ap value_text v.1.1, v.1.2))

      number : NumberAt file s b q (value_case a.value) (value_bits a.value)
      number bytes longest levels upto x h r =
          let v = value_is_read file s b upto q _ _ a (number_value_lem file s bytes longest levels b upto x h r) i in
          (v.0, (v.1.0, ap value_case v.1.1, ap value_bits v.1.1, v.1.2))

module _ (file : List ℕ) where
  pub group_info_at : (b q : ℕ) (g : GroupInfo) → Stands file group_info b q g → GroupInfoAt file b q g
  group_info_at b q g h = group_info_tied.ties file b q g h

  pub type_at : (longest : ℕ) → 4095 ≤ longest → (b q : ℕ) (t : DataType) → Stands file (data_type type_levels) b q t → TypeAt file longest b q t
  type_at longest enough b q t h = record { header = header_fields_tied file type_levels b q t h; whole = (datatype_tied longest enough type_levels).ties file b q t h }

module _ (file : List ℕ) (s : State) (longest : ℕ) where
  -- of type 12 the part that a row has is such a text, and its number such a number
  pub value_row : {b q type : ℕ} {k : Kept} → BodyIs file s longest b q type k → type ≡ 12 → TextAt file s b q (messages.part_of k) × NumberAt file s b q (value_case (messages.value_of k)) (value_bits (messages.value_of k))
  value_row (dataspace d h) e = absurd (omega arith)
  value_row (link_info_lem l h) e = absurd (omega arith)
  value_row (datatype t h) e = absurd (omega arith)
  value_row (fill_value_old_lem h) e = absurd (omega arith)
  value_row (fill_value h) e = absurd (omega arith)
  value_row (data_layout_lem p h) e = absurd (omega arith)
  value_row (group_info_lem g h) e = absurd (omega arith)
  value_row (filter_pipeline_lem h) e = absurd (omega arith)
  value_row (attribute_message_lem a h) e = h.value
  value_row (attribute_info_lem a h) e = absurd (omega arith)
  value_row (not_read h) e = absurd (h.1.1.1.1.1.1.1.1.0 e)

  module _ (enough : 4095 ≤ longest) where
    -- by whether the type is n
    by_type : {P : Type 0} (type n p q : ℕ) (k : Kept) (X Y : Format Kept) → Stands file (pick (eqb type n) X Y) p q k → (type ≡ n → Stands file X p q k → P) → ((type ≡ n → ⊥) → Stands file Y p q k → P) → P
    by_type {P} type n p q k X Y h f g = go (eqb type n) refl h
      where
        go : (t : Bool) → eqb type n ≡ t → Stands file (pick t X Y) p q k → P
        go true e h = f (eqb-true type n e) h
        go false e h = g (eqb-false type n e) h

    -- a body that is one record by itself
    one : {A : Type 0} (F : Format A) (con : A → Kept) (n type p q : ℕ) (k : Kept) → ((m : ℕ) (a : A) → Stands file F p m a → BodyIs file s longest p m n (con a)) → type ≡ n → Stands file (bind F (λ a. done (con a))) p q k → BodyIs file s longest p q type k
    one {A} F con n type p q k f e h =
        let w = stands_bind file F (λ a. done (con a)) p q k h in
        put w.0 w.1 w.3.0 w.3.1 (f w.0 w.1 w.2)
      where
        put : (m : ℕ) (a : A) → m ≡ q → con a ≡ k → BodyIs file s longest p m n (con a) → BodyIs file s longest p q type k
        put m a d c x = rw (← d, e, ← c) x

    plain_is : (type p q : ℕ) (k : Kept) → (type ≡ 8 → ⊥) → (type ≡ 12 → ⊥) → Stands file (plain_body s type) p q k → BodyIs file s longest p q type k
    unfolding plain_body
    plain_is type p q k e8 e12 h =
        by_type type 1 p q k _ _ h (one (data_space s) messages.data_space 1 type p q k (λ m a i. dataspace a (space_at file s p m a i))) (λ e1 h.
        by_type type 2 p q k _ _ h (one (link_info s) messages.link_info 2 type p q k (λ m a i. link_info_lem a (link_info_at file s p m a i))) (λ e2 h.
        by_type type 3 p q k _ _ h (one (data_type type_levels) messages.data_type 3 type p q k (λ m a i. datatype a (type_at file longest enough p m a i))) (λ e3 h.
        by_type type 4 p q k _ _ h (one fill_old (λ _. messages.nothing) 4 type p q k (λ m a i. fill_value_old_lem (fill_value_old_tied.ties file p m a i))) (λ e4 h.
        by_type type 5 p q k _ _ h (one fill (λ _. messages.nothing) 5 type p q k (λ m a i. fill_value (fill_value_tied.ties file p m a i))) (λ e5 h.
        by_type type 10 p q k _ _ h (one group_info messages.group_info 10 type p q k (λ m a i. group_info_lem a (group_info_at file p m a i))) (λ e10 h.
        by_type type 11 p q k _ _ h (one filter_pipeline (λ _. messages.nothing) 11 type p q k (λ m a i. filter_pipeline_lem (filter_pipeline_tied.ties file p m a i))) (λ e11 h.
        by_type type 21 p q k _ _ h (one (attribute_info s) messages.attribute_info 21 type p q k (λ m a i. attribute_info_lem a (attribute_info_at file s p m a i))) (λ e21 h.
        rw (← h.0, ← h.1) (not_read (e1, (e2, (e3, (e4, (e5, (e8, (e10, (e11, (e12, (e21, tt)))))))))))))))))))

    pub body_is : (type p q : ℕ) (k : Kept) → Stands file (body s type) p q k → BodyIs file s longest p q type k
    unfolding body layout_body attribute_body
    body_is type p q k h =
        by_type type 8 p q k _ _ h (one (data_layout s) messages.data_layout 8 type p q k (λ m a i. data_layout_lem a (layout_at file s p m a i))) (λ e8 h.
        by_type type 12 p q k _ _ h (one (attribute s) messages.attribute 12 type p q k (λ m a i. attribute_message_lem a (record { name = name_tied file s p m a i; whole = attribute_tied file s longest enough p m a i; value = value_at file s p m a i }))) (λ e12 h.
        plain_is type p q k e8 e12 h))
