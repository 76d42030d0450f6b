-- What a loop of comparisons shows of all elements.
use Rattle.std.{proofs.Common.{◌≡◌, ◌≢◌, ℕ, ◌+◌, ◌-◌, ◌<◌, ◌≤◌, true, false, cond, eqb, List, ◌∷◌, length, drop, map, get_or, Some, None, refl, ap, sym, ◌∙◌, subst, ⊎_elim, arith}, specs.Prelude.{Option, IfSome, filter, slice_get}, proofs.Math.ListN.get_or-map, proofs.lemmas.Bool.{cases_eq, eq-eqb}, proofs.lemmas.List.drop_more, proofs.lemmas.Option.{slice_get_within, get_or_from_slice_get}}
use Rattle.ledger_model.{specs.declared.figures.Figures.Figures, specs.declared.order.Order.Order, specs.Board.{figures_by, plus_figures, sum_of_figures}, specs.Content.{Content, entries}}
use Rattle.site_desk.{specs.Cell.Cell, specs.Close.{figures_at, figures_with}}

module _ {X : Type 0} (P : ℕ → X → Type 0) where
  -- one element more
  pub each_more : (xs : List X) (k : ℕ) (d : X) → d ≡ get_or xs k d → ((j : ℕ) (x : X) → j < k → slice_get xs j ≡ Some x → P j x)
      → P k d → (j : ℕ) (x : X) → j < k + 1 → slice_get xs j ≡ Some x → P j x
  each_more xs k d is before here j x less at = ⊎_elim
      (λ (e : j ≡ k).
      let same : d ≡ x = is ∙ get_or_from_slice_get xs k x d (ap (slice_get xs) (sym e) ∙ at) in
      subst (λ n. P n x) (sym e) (subst (P k) same here))
      (λ (apart : j ≢ k). before j x (below j k less apart) at)
      (cases_eq j k)
    where
      below : (j k : ℕ) → j < k + 1 → j ≢ k → j < k
      below j k less apart = omega arith

  -- all of them
  pub each_all : (xs : List X) (k : ℕ) → length xs ≤ k → ((j : ℕ) (x : X) → j < k → slice_get xs j ≡ Some x → P j x) → (j : ℕ) (x : X) → slice_get xs j ≡ Some x → P j x
  each_all xs k past before j x at = before j x (let less = slice_get_within xs j x at in omega arith) at

-- the cell of what is at this place is there among all cells
pub cell_at : {X : Type 0} (cell : X → Cell) (xs : List X) (k : ℕ) (x : X) (d : Cell) → x ≡ get_or xs k x → d ≡ cell x → d ≡ get_or (map cell xs) k d
cell_at cell xs k x d at is =
    let P : Cell → Type 0 = λ e. e ≡ get_or (map cell xs) k e in
    subst P (sym is) (ap cell at ∙ sym (get_or-map cell xs k x))

-- the sums with one station more in front
figures_cons : (c : Cell) (cells : List Cell) (site : ℕ) → figures_at (c ∷ cells) site ≡ figures_with c site (figures_at cells site)
figures_cons c cells site =
    let shown : Cell → Figures = λ d. figures_by d.order (entries d.content) in
    let tail = filter (λ (d : Cell). eqb d.site site) cells in
    elim (eqb c.site site) as (λ b. sum_of_figures (map shown (cond b (c ∷ tail) tail)) ≡ cond b (plus_figures (shown c) (sum_of_figures (map shown tail))) (sum_of_figures (map shown tail))) [
      | true ↦ refl
      | false ↦ refl
    ]

-- the step of a loop from the last station to the first
pub figures_more : (cells : List Cell) (site done : ℕ) (d : Cell) (sum now : Figures) → done < length cells
    → sum ≡ figures_at (drop (length cells - done) cells) site → d ≡ get_or cells (length cells - 1 - done) d
    → now ≡ figures_with d site sum
    → now ≡ figures_at (drop (length cells - (done + 1)) cells) site
figures_more cells site done d sum now less is here_is step =
    let i = length cells - 1 - done in
    let next : i + 1 ≡ length cells - done = omega arith in
    let here : i ≡ length cells - (done + 1) = omega arith in
    step ∙ ap (λ c. figures_with c site sum) here_is ∙ ap (figures_with (get_or cells i d) site) (is ∙ ap (λ n. figures_at (drop n cells) site) (sym next))
    ∙ sym (figures_cons (get_or cells i d) (drop (i + 1) cells) site)
    ∙ ap (λ cs. figures_at cs site) (sym (drop_more cells i d (omega arith)))
    ∙ ap (λ n. figures_at (drop n cells) site) here

-- the sums with the figures of a station of the site
pub plus_told : (r : Option Figures) (c : Cell) (site : ℕ) (sum shown : Figures) (order : Order) (content : Content)
    → c.site ≡ site → order ≡ c.order → content ≡ c.content → shown ≡ figures_by order (entries content)
    → IfSome r (λ f. f ≡ plus_figures shown sum) → IfSome r (λ f. f ≡ figures_with c site sum)
plus_told None c site sum shown order content e ordered is figured told = tt
plus_told (Some f) c site sum shown order content e ordered is figured told =
    told ∙ ap (λ g. plus_figures g sum) (figured ∙ (λ i. figures_by (ordered i) (entries (is i))))
    ∙ ap (λ b. cond b (plus_figures (figures_by c.order (entries c.content)) sum) sum) (sym (eq-eqb c.site site e))
