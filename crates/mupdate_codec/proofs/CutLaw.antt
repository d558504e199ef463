-- Where lines end, and that bytes are cut in one way.
use Rattle.std.proofs.Common.{◌≡◌, ℕ, List, [], ◌∷◌, ◌++◌, Bool, true, false, not, nat_eq, Result, Ok, Err, ◌⊎◌, inl, inr, ⊎_elim}
use Rattle.std.proofs.Common.{refl, sym, ap, ◌∙◌, subst, append-nil, append_assoc, eqb-true}
use Rattle.std.specs.List.{list_all}
use Rattle.grammar.proofs.Conditions.{and_right}
use Rattle.mupdate_codec.specs.declared.command.MCommand.{MCommand}
use Rattle.mupdate_codec.specs.declared.tag.Tag.{Tag}
use Rattle.mupdate_codec.specs.Answers.{IsBegun}
use Rattle.mupdate_codec.specs.Arguments.{exact}
use Rattle.mupdate_codec.specs.Commands.{command_line, IsCommandLine}
use Rattle.mupdate_codec.specs.Cut.{IsUncut, EndsLine, IsCut, waits, cuts}
use Rattle.mupdate_codec.specs.Waits.{stops_at_end, goes_on}
use Rattle.mupdate_codec.proofs.AnswersLaw.{more_found, more_only}
use Rattle.mupdate_codec.proofs.LinesLaw.{law_command_line}

-- the reading tells whether the bytes begin a line
pub goes_to : (bytes : List ℕ) → goes_on bytes ≡ true → IsBegun IsCommandLine bytes
unfolding goes_on
goes_to bytes h = by_read ((command_line exact).part.at bytes) refl h
  where
    by_read : (r : Result ((Tag × MCommand) × List ℕ) ℕ) → (command_line exact).part.at bytes ≡ r → stops_at_end r ≡ true → IsBegun IsCommandLine bytes
    by_read (Ok x) is h = cc
    by_read (Err left) is h = more_found (command_line exact).part law_command_line.good bytes (is ∙ ap Err (eqb-true left 0 h))

pub goes_from : (bytes : List ℕ) → IsBegun IsCommandLine bytes → goes_on bytes ≡ true
unfolding goes_on
goes_from bytes b = ap stops_at_end (more_only (command_line exact).part law_command_line.good bytes b)

-- an LF of two texts is in the one or in the other
pub lf_in : (bytes x front rest : List ℕ) → bytes ++ x ≡ front ++ 10 ∷ rest
    → ((r : List ℕ) × (bytes ≡ front ++ 10 ∷ r)) ⊎ ((f : List ℕ) × (front ≡ bytes ++ f) × (x ≡ f ++ 10 ∷ rest))
lf_in [] x front rest e = inr (front, refl, e)
lf_in (c ∷ bytes) x [] rest e = let first : c ≡ 10 = cc in inl (bytes, ap (λ h. h ∷ bytes) first)
lf_in (c ∷ bytes) x (d ∷ front) rest e =
    let first : c ≡ d = cc in
    let on : bytes ++ x ≡ front ++ 10 ∷ rest = cc in
    ⊎_elim (λ r. inl (r.0, ap (λ s. c ∷ s) r.1 ∙ ap (λ h. h ∷ (front ++ 10 ∷ r.0)) first))
    (λ f. inr (f.0, ap (λ s. d ∷ s) f.1 ∙ ap (λ h. h ∷ (bytes ++ f.0)) (sym first), f.2)) (lf_in bytes x front rest on)

-- no byte is LF
abbrev pub has_no_lf : List ℕ → Bool
has_no_lf = list_all (λ c. not (nat_eq c 10))

pub no_lf : (f rest : List ℕ) → has_no_lf (f ++ 10 ∷ rest) ≡ true → ⊥
no_lf [] rest h = let both : false ≡ true = h in cc
no_lf (c ∷ f) rest h = no_lf f rest (and_right (not (nat_eq c 10)) _ h)

pub not_nothing : (front : List ℕ) (c : ℕ) (rest : List ℕ) → [] ≡ front ++ c ∷ rest → ⊥
not_nothing [] c rest e = cc
not_nothing (d ∷ front) c rest e = cc

-- more bytes of a connection that is cut

pub cut_waits : (past x begun : List ℕ) (lines : List (List ℕ)) → IsCut past lines begun → IsUncut (begun ++ x) → IsCut (past ++ x) lines (begun ++ x)
cut_waits past x begun lines (waits bytes u) h = waits (bytes ++ x) h
cut_waits past x begun lines (cuts line rest later left e c) h =
    subst (λ s. IsCut s (line ∷ later) (left ++ x)) (sym (append_assoc line rest x)) (cuts line (rest ++ x) later (left ++ x) e (cut_waits rest x left later c h))

pub cut_line : (past x begun : List ℕ) (lines : List (List ℕ)) → IsCut past lines begun → EndsLine (begun ++ x)
    → IsCut (past ++ x) (lines ++ (begun ++ x) ∷ []) []
cut_line past x begun lines (waits bytes u) h =
    subst (λ s. IsCut s ((bytes ++ x) ∷ []) []) (append-nil (bytes ++ x)) (cuts (bytes ++ x) [] [] [] h (waits [] (λ front rest e. absurd (not_nothing front 10 rest e))))
cut_line past x begun lines (cuts line rest later left e c) h =
    subst (λ s. IsCut s (line ∷ (later ++ (left ++ x) ∷ [])) []) (sym (append_assoc line rest x))
    (cuts line (rest ++ x) (later ++ (left ++ x) ∷ []) [] e (cut_line rest x left later c h))

-- bytes are cut in one way

-- no line ends in bytes that begin with one
uncut_none : (line rest : List ℕ) → EndsLine line → IsUncut (line ++ rest) → ⊥
uncut_none line rest e u =
    e.ends (subst (IsBegun IsCommandLine) (sym e.parts) (u e.front rest (ap (λ s. s ++ rest) e.parts ∙ append_assoc e.front (10 ∷ []) rest)))

-- two first lines are one
one_line : (line rest other behind : List ℕ) → line ++ rest ≡ other ++ behind → EndsLine line → EndsLine other → (line ≡ other) × (rest ≡ behind)
one_line line rest other behind e l m =
    ⊎_elim (λ r. absurd (l.ends (subst (IsBegun IsCommandLine) (sym l.parts) (m.uncut l.front r.0 r.1))))
    (λ f. by_front f.0 f.1 f.2) (lf_in m.front (10 ∷ behind) l.front rest both)
  where
    both : m.front ++ 10 ∷ behind ≡ l.front ++ 10 ∷ rest
    both =
        sym (ap (λ s. s ++ behind) m.parts ∙ append_assoc m.front (10 ∷ []) behind) ∙ sym e
        ∙ ap (λ s. s ++ rest) l.parts ∙ append_assoc l.front (10 ∷ []) rest

    by_front : (f : List ℕ) → l.front ≡ m.front ++ f → (let s : List ℕ = 10 ∷ behind in s) ≡ f ++ 10 ∷ rest → (line ≡ other) × (rest ≡ behind)
    by_front [] is k =
        let same : l.front ≡ m.front = is ∙ append-nil m.front in
        let tail : behind ≡ rest = cc in
        (l.parts ∙ ap (λ s. s ++ 10 ∷ []) same ∙ sym m.parts, sym tail)
    by_front (c ∷ f) is k =
        let first : 10 ≡ c = cc in
        absurd (m.ends (subst (IsBegun IsCommandLine) (sym m.parts) (l.uncut m.front f (is ∙ ap (λ d. m.front ++ d ∷ f) (sym first)))))

pub cut_once : (bytes again : List ℕ) (lines other : List (List ℕ)) (left rest : List ℕ) → bytes ≡ again → IsCut bytes lines left → IsCut again other rest
    → (lines ≡ other) × (left ≡ rest)
cut_once bytes again lines other left rest e (waits b u) (waits c v) = (refl, e)
cut_once bytes again lines other left rest e (waits b u) (cuts line behind later last l c) = absurd (uncut_none line behind l (subst IsUncut e u))
cut_once bytes again lines other left rest e (cuts line behind later last l c) (waits b u) = absurd (uncut_none line behind l (subst IsUncut (sym e) u))
cut_once bytes again lines other left rest e (cuts line behind later last l c) (cuts line2 behind2 later2 last2 m d) =
    let one = one_line line behind line2 behind2 e l m in
    let more = cut_once behind behind2 later later2 last last2 one.1 c d in
    (ap (λ s. s ∷ later) one.0 ∙ ap (λ s. line2 ∷ s) more.0, more.1)
