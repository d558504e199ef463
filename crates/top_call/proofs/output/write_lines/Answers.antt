use Rattle.std.proofs.Common.{◌≡◌, ℕ, List, [], ◌∷◌, ◌++◌, length, refl, sym, ap, ap₂, subst, Option, Result, IsErr}
use Rattle.std.proofs.lemmas.List.{append-nil}
use Rattle.std.specs.List.{flat_map}
use Rattle.cluster_core.specs.declared.cluster.HomeRow.{HomeRow}
use Rattle.cluster_core.specs.World.{ClusterState}
use Rattle.mur_base.specs.declared.point.Point.{Point}
use Rattle.top_call.specs.Output.{client_lines, point_line, record_line, records_of, box_line, end_line, lines_of}
use Rattle.top_call.specs.Writing.{TakesIn, TookPart, DidPut}
use Rattle.top_call.proofs.WritingLaws.{OnWay, begins, goes_on, breaks, fails, ends}
use Rattle.top_call.proofs.output.write_lines.Goals as goal

-- the parts of the output, one behind the other
abbrev parts_of : ClusterState → List Point → List HomeRow → List (List ℕ)
parts_of now points rows = flat_map client_lines now.world.clients ∷ flat_map point_line points ∷ flat_map record_line (records_of now)
    ∷ flat_map box_line rows ∷ end_line now.world.steps (length points) ∷ []

abbrev itself : List ℕ → List ℕ
itself part = part

together : (now : ClusterState) (points : List Point) (rows : List HomeRow) → flat_map itself (parts_of now points rows) ≡ lines_of now points rows
unfolding lines_of
together now points rows =
    ap (λ (last : List ℕ). flat_map client_lines now.world.clients ++ (flat_map point_line points ++ (flat_map record_line (records_of now)
    ++ (flat_map box_line rows ++ last)))) (append-nil (end_line now.world.steps (length points)))

failed : {E : Type 0} (t later : Option (List ℕ)) (part kept : List ℕ) (now : ClusterState) (points : List Point) (rows : List HomeRow) (answer : Result (Unit {0}) E)
    → IsErr answer → TookPart t later (part ++ flat_map itself (parts_of now points rows)) → DidPut t later part kept (lines_of now points rows) answer
failed t later part kept now points rows answer is took =
    fails t later part kept (lines_of now points rows) answer is (subst (λ (text : List ℕ). TookPart t later (part ++ text)) (together now points rows) took)

done : (t later : Option (List ℕ)) (part kept : List ℕ) (now : ClusterState) (points : List Point) (rows : List HomeRow)
    → TakesIn t later part kept (flat_map itself (parts_of now points rows)) → TakesIn t later part kept (lines_of now points rows)
done t later part kept now points rows taken = subst (λ (text : List ℕ). TakesIn t later part kept text) (together now points rows) taken

end_is : (count points now steps : ℕ) → count ≡ points → now ≡ steps → end_line steps points ∷ [] ≡ end_line now count ∷ []
end_is count points now steps is taken = ap₂ (λ (n m : ℕ). end_line n m ∷ []) (sym taken) (sym is)

start : (t : Option (List ℕ)) (part : List ℕ) (now : ClusterState) (points : List Point) (rows : List HomeRow)
    → OnWay itself t t part part (parts_of now points rows) (flat_map itself (parts_of now points rows))
start t part now points rows = begins itself t part (parts_of now points rows)

pub returns-in_err-write_clients-clause-did : goal.returns-in_err-write_clients-clause-did
returns-in_err-write_clients-clause-did g c =
    failed _ _ _ _ _ _ _ _ c.from_residual.ensures.0
    (breaks itself _ _ _ _ _ _ _ _ _ refl (start _ _ c.args.cluster.now c.args.points.now c.args.rows.now) c.in_err-write_clients.ensures.did)

pub returns-in_err-write_each-clause-did : goal.returns-in_err-write_each-clause-did
returns-in_err-write_each-clause-did g c =
    let clients = goes_on itself _ _ _ _ _ _ _ _ _ _ refl (start _ _ c.args.cluster.now c.args.points.now c.args.rows.now) c.in_ok-write_clients.ensures.did in
    failed _ _ _ _ _ _ _ _ c.from_residual-in_err-write_each.ensures.0
    (breaks itself _ _ _ _ _ _ _ _ _ refl clients (rw c.as_slice.ensures at c.in_err-write_each.ensures.did))

pub returns-in_err-write_table-clause-did : goal.returns-in_err-write_table-clause-did
returns-in_err-write_table-clause-did g c =
    let clients = goes_on itself _ _ _ _ _ _ _ _ _ _ refl (start _ _ c.args.cluster.now c.args.points.now c.args.rows.now) c.in_ok-write_clients.ensures.did in
    let points = goes_on itself _ _ _ _ _ _ _ _ _ _ refl clients (rw c.as_slice.ensures at c.in_ok-write_each.ensures.did) in
    failed _ _ _ _ _ _ _ _ c.from_residual-in_err-write_table.ensures.0
    (breaks itself _ _ _ _ _ _ _ _ _ refl points c.in_err-write_table.ensures.did)

pub returns-in_err-write_each-2-clause-did : goal.returns-in_err-write_each-2-clause-did
returns-in_err-write_each-2-clause-did g c =
    let clients = goes_on itself _ _ _ _ _ _ _ _ _ _ refl (start _ _ c.args.cluster.now c.args.points.now c.args.rows.now) c.in_ok-write_clients.ensures.did in
    let points = goes_on itself _ _ _ _ _ _ _ _ _ _ refl clients (rw c.as_slice.ensures at c.in_ok-write_each.ensures.did) in
    let records = goes_on itself _ _ _ _ _ _ _ _ _ _ refl points c.in_ok-write_table.ensures.did in
    failed _ _ _ _ _ _ _ _ c.from_residual-in_err-write_each-2.ensures.0
    (breaks itself _ _ _ _ _ _ _ _ _ refl records (rw c.as_slice-2.ensures at c.in_err-write_each-2.ensures.did))

pub returns-in_err-write_line-clause-did : goal.returns-in_err-write_line-clause-did
returns-in_err-write_line-clause-did g c =
    let clients = goes_on itself _ _ _ _ _ _ _ _ _ _ refl (start _ _ c.args.cluster.now c.args.points.now c.args.rows.now) c.in_ok-write_clients.ensures.did in
    let points = goes_on itself _ _ _ _ _ _ _ _ _ _ refl clients (rw c.as_slice.ensures at c.in_ok-write_each.ensures.did) in
    let records = goes_on itself _ _ _ _ _ _ _ _ _ _ refl points c.in_ok-write_table.ensures.did in
    let boxes = goes_on itself _ _ _ _ _ _ _ _ _ _ refl records (rw c.as_slice-2.ensures at c.in_ok-write_each-2.ensures.did) in
    failed _ _ _ _ _ _ _ _ c.from_residual-in_err-write_line.ensures.0
    (breaks itself _ _ _ _ _ _ _ _ _ (end_is c.len.result (length c.args.points.now) c.steps.result c.args.cluster.now.world.steps c.len.ensures c.steps.ensures) boxes
    c.in_err-write_line.ensures.did)

pub returns-clause-did : goal.returns-clause-did
returns-clause-did g c =
    let clients = goes_on itself _ _ _ _ _ _ _ _ _ _ refl (start _ _ c.args.cluster.now c.args.points.now c.args.rows.now) c.in_ok-write_clients.ensures.did in
    let points = goes_on itself _ _ _ _ _ _ _ _ _ _ refl clients (rw c.as_slice.ensures at c.in_ok-write_each.ensures.did) in
    let records = goes_on itself _ _ _ _ _ _ _ _ _ _ refl points c.in_ok-write_table.ensures.did in
    let boxes = goes_on itself _ _ _ _ _ _ _ _ _ _ refl records (rw c.as_slice-2.ensures at c.in_ok-write_each-2.ensures.did) in
    let last = goes_on itself _ _ _ _ _ _ _ _ _ _
    (end_is c.len.result (length c.args.points.now) c.steps.result c.args.cluster.now.world.steps c.len.ensures c.steps.ensures) boxes c.in_ok-write_line.ensures.did in
    done _ _ _ _ _ _ _ (ends itself _ _ _ _ _ _ refl last)
