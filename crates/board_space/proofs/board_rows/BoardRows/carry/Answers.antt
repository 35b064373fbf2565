use Rattle.std.proofs.Common.{rules, ℕ, [], ◌∷◌, ◌++◌, ◌≡◌, ◌+◌, ◌≤◌, ◌∙◌, List, length, length-append, refl, ap, arith, subst, sym}
use Rattle.std.specs.Prelude.{slice_index}
use Rattle.board_space.specs.{Carried.{AreLearned, AreSameRecords, AreSameWords}, Layouts.tracked_of, Records.IsAt, Rows.Extends}
use Rattle.board_space.{specs.{Tracked.segment_count, declared.board_rows.BoardRows.BoardRows}, proofs.Carried.stands_carried}
use Rattle.board_space.proofs.{Numbers.{added_at, extends_more}, Remembered.{learned_on, same_first}, Telling.stands_stays}
use Rattle.board_space.proofs.board_rows.BoardRows.carry.Goals as goal

pub returns-clause-stands : goal.returns-clause-stands
returns-clause-stands c b x =
    let from = c.args.from.now in
    let row = c.args.row.now in
    let new : BoardRows = record c.args.self.now { rests = c.carry_rest.new.to; harts = c.carry_harts.new.to; words = c.carry_segments.new.to } in
    let none = c.clear.new.self.items in
    let first = c.push.new.self.items in
    let mid = c.carry_harts.new.out.items in
    let out = c.carry_segments.new.out.items in
    let k = c.in_ok-carry_rest.field-0 in
    let items : first ≡ none ++ k ∷ [] = search rules in
    let nothing : Extends none none 0 = record { long = omega arith; same = λ i low. refl } in
    let one : Extends none first 1 = subst (λ (l : List ℕ). Extends none l 1) (sym items) (extends_more none none 0 k nothing) in
    let at : slice_index first (length none) ≡ k = ap (λ (l : List ℕ). slice_index l (length none)) items ∙ (ap (λ (n : ℕ). slice_index (none ++ k ∷ []) n) (omega arith) ∙ added_at none none 0 k nothing) in
    stands_carried from new row none first mid out c.requires.laid c.requires.size (ap (λ (l : List ℕ). length l) c.clear.ensures.items)
    one
    (subst (λ (n : ℕ). Extends first mid n) c.harts-harts.ensures c.in_ok-carry_harts.ensures.row)
    (subst (λ (n : ℕ). Extends mid out n) c.segments-segments.ensures c.in_ok-carry_segments.ensures.row)
    (same_first from.rests.records.items c.carry_rest.new.to.records.items row first (length none)
    (λ z is. subst (λ (n : ℕ). IsAt c.carry_rest.new.to.records.items n z) (sym at) (c.in_ok-carry_rest.ensures.same z is)))
    (subst (λ (n : ℕ). AreSameRecords from.harts.records.items row 1 c.carry_harts.new.to.records.items mid (length first) n) c.harts-harts.ensures c.in_ok-carry_harts.ensures.same)
    (subst (λ (n : ℕ). AreSameWords from.words row (1 + n) c.carry_segments.new.to out (length mid) (segment_count (tracked_of from.layout))) c.harts-harts.ensures
    (subst (λ (n : ℕ). AreSameWords from.words row (1 + c.harts-harts.result) c.carry_segments.new.to out (length mid) n) c.segments-segments.ensures c.in_ok-carry_segments.ensures.same))
    b x

pub returns-in_err-carry_harts-clause-stay : goal.returns-in_err-carry_harts-clause-stay
returns-in_err-carry_harts-clause-stay c =
    stands_stays c.args.self.now (record c.args.self.now { rests = c.carry_rest.new.to; harts = c.carry_harts.new.to }) refl c.carry_rest.ensures.stay c.carry_harts.ensures.stay (λ n low. (low, refl))

pub returns-in_err-carry_segments-clause-stay : goal.returns-in_err-carry_segments-clause-stay
returns-in_err-carry_segments-clause-stay c =
    stands_stays c.args.self.now (record c.args.self.now { rests = c.carry_rest.new.to; harts = c.carry_harts.new.to; words = c.carry_segments.new.to }) refl c.carry_rest.ensures.stay c.carry_harts.ensures.stay c.carry_segments.ensures.grows

pub returns-clause-stay : goal.returns-clause-stay
returns-clause-stay c =
    stands_stays c.args.self.now (record c.args.self.now { rests = c.carry_rest.new.to; harts = c.carry_harts.new.to; words = c.carry_segments.new.to }) refl c.carry_rest.ensures.stay c.carry_harts.ensures.stay c.carry_segments.ensures.grows

pub returns-clause-harts : goal.returns-clause-harts
returns-clause-harts c =
    let row = c.args.row.now in
    let none = c.clear.new.self.items in
    let first = c.push.new.self.items in
    let mid = c.carry_harts.new.out.items in
    let out = c.carry_segments.new.out.items in
    let items : first ≡ none ++ c.in_ok-carry_rest.field-0 ∷ [] = search rules in
    let long : length first ≡ 1 = ap (λ (l : List ℕ). length l) items ∙ (length-append none (c.in_ok-carry_rest.field-0 ∷ []) ∙ ap (λ (l : List ℕ). length l + 1) c.clear.ensures.items) in
    let room : length first + c.harts-harts.result ≤ length mid = omega (arith, c.in_ok-carry_harts.ensures.row.long) in
    let learned = learned_on c.args.learns c.args.memo.now.harts c.carry_harts.new.memo row mid out 1 (length first) c.harts-harts.result c.segments-segments.result c.in_ok-carry_segments.ensures.row room c.in_ok-carry_harts.ensures.learned in
    subst (λ (n : ℕ). AreLearned c.args.learns c.args.memo.now.harts c.carry_harts.new.memo row 1 out 1 n) c.harts-harts.ensures
    (subst (λ (at : ℕ). AreLearned c.args.learns c.args.memo.now.harts c.carry_harts.new.memo row 1 out at c.harts-harts.result) long learned)

pub returns-clause-words : goal.returns-clause-words
returns-clause-words c =
    let row = c.args.row.now in
    let none = c.clear.new.self.items in
    let first = c.push.new.self.items in
    let mid = c.carry_harts.new.out.items in
    let out = c.carry_segments.new.out.items in
    let items : first ≡ none ++ c.in_ok-carry_rest.field-0 ∷ [] = search rules in
    let long : length first ≡ 1 = ap (λ (l : List ℕ). length l) items ∙ (length-append none (c.in_ok-carry_rest.field-0 ∷ []) ∙ ap (λ (l : List ℕ). length l + 1) c.clear.ensures.items) in
    let at : length mid ≡ 1 + c.harts-harts.result = omega (arith, c.in_ok-carry_harts.ensures.row.long, long) in
    subst (λ (h : ℕ). AreLearned c.args.learns c.args.memo.now.words c.carry_segments.new.memo row (1 + h) out (1 + h) (segment_count (tracked_of c.args.from.now.layout))) c.harts-harts.ensures
    (subst (λ (n : ℕ). AreLearned c.args.learns c.args.memo.now.words c.carry_segments.new.memo row (1 + c.harts-harts.result) out (1 + c.harts-harts.result) n) c.segments-segments.ensures
    (subst (λ (k : ℕ). AreLearned c.args.learns c.args.memo.now.words c.carry_segments.new.memo row (1 + c.harts-harts.result) out k c.segments-segments.result) at c.in_ok-carry_segments.ensures.learned))
