-- Two boards of the same harts, pages and lanes are of one shape.
use Rattle.std.{proofs.Common.{◌≡◌, ◌∙◌, ◌==◌, ◌&&◌, ap, false, rules, tests}, specs.Prelude.not}
use Rattle.board_model.specs.Shapes.{Size, board_size}

pub same_shape : (a b : Size) → false ≡ not ((a.harts == b.harts) && ((a.pages == b.pages) && (a.lanes == b.lanes))) → a ≡ b
same_shape a b same =
    let harts : a.harts ≡ b.harts = search (rules, tests) in
    let pages : a.pages ≡ b.pages = search (rules, tests) in
    let lanes : a.lanes ≡ b.lanes = search (rules, tests) in
    ap (λ n. board_size n a.pages a.lanes) harts ∙ ap (λ n. board_size b.harts n a.lanes) pages
    ∙ ap (λ n. board_size b.harts b.pages n) lanes
