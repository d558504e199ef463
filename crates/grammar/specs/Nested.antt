-- Forms whose values nest, and parts that a word tells or that say nothing.
use Rattle.std.specs.Prelude.{ℕ, zero, suc, Bool, List}
use Rattle.grammar.specs.Part.{Part, ◌then◌, ◌sp◌, choose}
use Rattle.grammar.specs.Forms.{Form}

-- what a value is that nests so deep: at depth 0 one that holds none of its kind, else one that may hold those of one depth less
unfoldable pub nested_part : {A : Type 0} → (A → List ℕ) → Part A → (Form A → Part A) → ℕ → Part A
nested_part text flat deep zero = flat
nested_part text flat deep (suc depth) = deep (record { part = nested_part text flat deep depth; text = text })

-- values that nest at most so deep, each with its text
abbrev pub nested : {A : Type 0} → (A → List ℕ) → Part A → (Form A → Part A) → ℕ → Form A
nested text flat deep depth = record { part = nested_part text flat deep depth; text = text }

-- a form whose value tells which part stands behind it; both together are the values, with their text
abbrev pub told : {K A : Type 0} → Form K → (K → Part A) → (A → List ℕ) → Form A
told p next text = record { part = p.part then next; text = text }

-- a form, before which a part and a space may stand that say nothing of its value
abbrev pub after_maybe : {K A : Type 0} → (ℕ → Bool) → Part K → Form A → Form A
after_maybe test p q = record { part = choose test (p sp λ _. q.part) q.part; text = q.text }
