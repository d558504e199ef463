-- The line of counts that a drill prints.
use Rattle.std.specs.Prelude.{ℕ, List, ◌++◌, codes, decimal}
use Rattle.drill_gen.specs.declared.summary.Summary.{Summary}

unfoldable pub field_text : List ℕ → ℕ → List ℕ
field_text word count = word ++ decimal count

unfoldable pub run_text : Summary → List ℕ
run_text summary =
    field_text (codes "drill ") summary.number ++ field_text (codes " ") summary.size ++ field_text (codes " steps ") summary.steps
    ++ field_text (codes " points ") summary.points

unfoldable pub lines_text : Summary → List ℕ
lines_text summary =
    field_text (codes " ok ") summary.ok ++ field_text (codes " no ") summary.no ++ field_text (codes " bad ") summary.bad
    ++ field_text (codes " bye ") summary.bye ++ field_text (codes " boxes ") summary.boxes ++ codes "\n"

-- `drill NUMBER SIZE steps S points P ok A no B bad C bye D boxes E`
unfoldable pub summary_line : Summary → List ℕ
summary_line summary = run_text summary ++ lines_text summary
