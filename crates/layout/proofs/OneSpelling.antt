-- A sector is the spelling of one record alone.
use Rattle.std.proofs.Common.{◌≡◌, ◌∙◌, ℕ, List, [], ◌∷◌, Option, Some, None, length, slice_index, refl, sym, ap, arith}
use Rattle.board_model.specs.{Shapes.Size, Views.reason_number, declared.durable.Reason.{Reason, TheVariants.{NoReason, SystemFailure}}}
use Rattle.board_model.specs.declared.durable.Trial.{Trial}
use Rattle.layout.specs.{Records.{version_number, presence_of, IsRecord}, declared.records.Version.{Version, TheVariants.{One, Two}}}
use Rattle.layout.specs.{Read.StandsIn, declared.{saved.Saved.Saved, records.Record.Record}}
use Rattle.layout.proofs.SpelledRecords.{version_in, slot_in, reason_in, presence_in, next_in, image_in, record_is, no_trial, some_trial}

four : (xs : List ℕ) → length xs ≡ 4 → xs ≡ slice_index xs 0 ∷ slice_index xs 1 ∷ slice_index xs 2 ∷ slice_index xs 3 ∷ []
four [] is = absurd (omega arith)
four (a ∷ []) is = absurd (omega arith)
four (a ∷ b ∷ []) is = absurd (omega arith)
four (a ∷ b ∷ c ∷ []) is = absurd (omega arith)
four (a ∷ b ∷ c ∷ d ∷ []) is = refl
four (a ∷ b ∷ c ∷ d ∷ e ∷ xs) is = absurd (omega arith)

one_counts : (xs ys : List ℕ) → length xs ≡ 4 → length ys ≡ 4 → slice_index xs 0 ≡ slice_index ys 0 → slice_index xs 1 ≡ slice_index ys 1
    → slice_index xs 2 ≡ slice_index ys 2 → slice_index xs 3 ≡ slice_index ys 3 → xs ≡ ys
one_counts xs ys few less a b c d =
    four xs few
    ∙ ap (λ (n : ℕ). n ∷ slice_index xs 1 ∷ slice_index xs 2 ∷ slice_index xs 3 ∷ []) a
    ∙ ap (λ (n : ℕ). slice_index ys 0 ∷ n ∷ slice_index xs 2 ∷ slice_index xs 3 ∷ []) b
    ∙ ap (λ (n : ℕ). slice_index ys 0 ∷ slice_index ys 1 ∷ n ∷ slice_index xs 3 ∷ []) c
    ∙ ap (λ (n : ℕ). slice_index ys 0 ∷ slice_index ys 1 ∷ slice_index ys 2 ∷ n ∷ []) d
    ∙ sym (four ys less)

one_saved : (sector : List ℕ) (s t : Saved) → StandsIn sector s → StandsIn sector t → length s.counts ≡ 4 → length t.counts ≡ 4 → s ≡ t
one_saved sector s t a b few less =
    let counts = one_counts s.counts t.counts few less (sym a.zero ∙ b.zero) (sym a.one ∙ b.one) (sym a.two ∙ b.two) (sym a.three ∙ b.three) in
    ap (λ (x : ℕ). made x s.head.hart s.head.address s.head.opaque s.area s.counts) (sym a.serial ∙ b.serial)
    ∙ ap (λ (x : ℕ). made t.head.serial x s.head.address s.head.opaque s.area s.counts) (sym a.hart ∙ b.hart)
    ∙ ap (λ (x : ℕ). made t.head.serial t.head.hart x s.head.opaque s.area s.counts) (sym a.address ∙ b.address)
    ∙ ap (λ (x : ℕ). made t.head.serial t.head.hart t.head.address x s.area s.counts) (sym a.opaque ∙ b.opaque)
    ∙ ap (λ (x : ℕ). made t.head.serial t.head.hart t.head.address t.head.opaque x s.counts) (sym a.area ∙ b.area)
    ∙ ap (λ (x : List ℕ). made t.head.serial t.head.hart t.head.address t.head.opaque t.area x) counts
  where
    made : ℕ → ℕ → ℕ → ℕ → ℕ → List ℕ → Saved
    made serial hart address opaque area counts =
        record { head = record { serial = serial; hart = hart; address = address; opaque = opaque }; area = area; counts = counts }

one_reason : (a b : Reason) → reason_number a ≡ reason_number b → a ≡ b
one_reason NoReason NoReason is = refl
one_reason NoReason SystemFailure is = absurd (omega arith)
one_reason SystemFailure NoReason is = absurd (omega arith)
one_reason SystemFailure SystemFailure is = refl

module _ (size : Size) (r q : Record) (sector : List ℕ) (first : IsRecord size r sector) (second : IsRecord size q sector) where
  one_image : (i j : Option Saved) → r.image ≡ i → q.image ≡ j → presence_of i ≡ presence_of j → i ≡ j
  one_image None None a b same = refl
  one_image None (Some t) a b same = absurd (omega arith)
  one_image (Some s) None a b same = absurd (omega arith)
  one_image (Some s) (Some t) a b same =
      let one = image_in size r sector s first a in
      let two = image_in size q sector t second b in
      ap Some (one_saved sector s t one.1 two.1 one.0.counts.four two.0.counts.four)

  one_version : (v w : Version) → version_number v ≡ version_number w → v ≡ w
  one_version One One is = refl
  one_version One Two is = absurd (omega arith)
  one_version Two One is = absurd (omega arith)
  one_version Two Two is = refl

  trials : (o p : Option Trial) → r.trial ≡ o → q.trial ≡ p → o ≡ p
  trials None None a b = refl
  trials None (Some t) a b = absurd (omega (arith, no_trial size r sector first a, (some_trial size q sector second t b).0))
  trials (Some t) None a b = absurd (omega (arith, no_trial size q sector second b, (some_trial size r sector first t a).0))
  trials (Some t) (Some u) a b =
      let one = some_trial size r sector first t a in
      let two = some_trial size q sector second u b in
      ap (λ (f : ℕ). let x : Option Trial = Some (record { fallback = f; left = t.left }) in x) (sym one.1 ∙ two.1)
      ∙ ap (λ (l : ℕ). let x : Option Trial = Some (record { fallback = u.fallback; left = l }) in x) (sym one.2 ∙ two.2)

  pub bytes_determine_record : r ≡ q
  bytes_determine_record =
      record_is q r.version r.slot r.reason r.next r.image r.trial
      (one_version r.version q.version (sym (version_in size r sector first) ∙ version_in size q sector second))
      (sym (slot_in size r sector first) ∙ slot_in size q sector second)
      (one_reason r.reason q.reason (sym (reason_in size r sector first) ∙ reason_in size q sector second))
      (sym (next_in size r sector first) ∙ next_in size q sector second)
      (one_image r.image q.image refl refl (sym (presence_in size r sector first) ∙ presence_in size q sector second))
      (trials r.trial q.trial refl refl)
