-- What is on a link after outputs were put on the links of their node, and after a message was taken.
use Rattle.std.proofs.Common.{◌≡◌, ◌≢◌, ◌⊎◌, inl, inr, ◌&&◌, ℕ, Bool, true, false, cond, nat_eq, List, [], ◌∷◌}
use Rattle.std.proofs.Common.{◌++◌, drop, refl, sym, ap, ◌∙◌, append-nil, append_assoc}
use Rattle.std.specs.Ordering.{nat_cmp, is_eq}
use Rattle.std.specs.Cmp.Lexicographic.{pointwise, slice_cmp}
use Rattle.link_msg.specs.declared.message.LinkMsg.{LinkMsg}
use Rattle.link_msg.specs.declared.out.Out.{Out}
use Rattle.link_msg.specs.declared.out.Out.TheVariants.{Client, Close, Link, Mark, Told}
use Rattle.link_queue.specs.Links.{Links, same_link, on_link, without_first}
use Rattle.link_queue.proofs.Wires.{same_itself, on_link-sent, on_link-taken}
use Rattle.mur_base.proofs.MapLaws.{names_apart, not_equal, same_or_other}
use Rattle.feed_links.specs.Lines.{message_to, messages_to}
use Rattle.feed_links.proofs.Names.{same_name, other_name}
use Rattle.many_links.specs.Murder.{put_out, put_all}

-- ---- another link

never : (s : Bool) → (s && false) ≡ false
never true = refl
never false = refl

another_link : (a b from to : List ℕ) → (a ≢ from) ⊎ (b ≢ to) → same_link a b from to ≡ false
another_link a b from to (inl ne) = ap (λ (s : Bool). s && is_eq (slice_cmp nat_cmp b to)) (not_equal (slice_cmp nat_cmp) names_apart a from ne)
another_link a b from to (inr ne) =
    ap (λ (s : Bool). is_eq (slice_cmp nat_cmp a from) && s) (not_equal (slice_cmp nat_cmp) names_apart b to ne) ∙ never (is_eq (slice_cmp nat_cmp a from))

-- ---- a message is taken

pub taken_else : (links : Links LinkMsg) (from to a b : List ℕ) → (a ≢ from) ⊎ (b ≢ to) → on_link (without_first links from to) a b ≡ on_link links a b
taken_else links from to a b ne =
    on_link-taken links from to a b
    ∙ ap (λ (s : Bool). cond s (drop 1 (on_link links a b)) (on_link links a b)) (another_link a b from to ne)

pub taken_first : (links : Links LinkMsg) (from to : List ℕ) (message : LinkMsg) (rest : List LinkMsg) → on_link links from to ≡ message ∷ rest
    → on_link (without_first links from to) from to ≡ rest
taken_first links from to message rest e =
    on_link-taken links from to from to
    ∙ ap (λ (s : Bool). cond s (drop 1 (on_link links from to)) (on_link links from to)) (same_itself from to)
    ∙ ap (λ (queue : List LinkMsg). drop 1 queue) e

-- ---- an output is put on its link

sent_there : (from to b : List ℕ) (message : LinkMsg) → (b ≡ to) ⊎ (b ≢ to)
    → cond (same_link from b from to) (message ∷ []) [] ≡ message_to b (Link to message)
sent_there from to b message (inl same) =
    ap (λ (x : List ℕ). cond (same_link from x from to) (message ∷ []) []) same
    ∙ ap (λ (s : Bool). cond s (message ∷ []) []) (same_itself from to)
    ∙ sym (ap (λ (s : Bool). cond s (message ∷ []) []) (ap (λ (x : List ℕ). pointwise nat_eq to x) same ∙ same_name to))
sent_there from to b message (inr ne) =
    ap (λ (s : Bool). cond s (message ∷ []) []) (another_link from b from to (inr ne))
    ∙ sym (ap (λ (s : Bool). cond s (message ∷ []) []) (other_name to b (λ e. ne (sym e))))

put_own : (from : List ℕ) (links : Links LinkMsg) (out : Out) (b : List ℕ) → on_link (put_out from links out) from b ≡ on_link links from b ++ message_to b out
unfolding put_out
put_own from links (Link to message) b =
    on_link-sent links from to from b message
    ∙ ap (λ (l : List LinkMsg). on_link links from b ++ l) (sent_there from to b message (same_or_other (slice_cmp nat_cmp) names_apart b to))
put_own from links (Client conn bytes) b = sym (append-nil (on_link links from b))
put_own from links (Close conn) b = sym (append-nil (on_link links from b))
put_own from links (Mark ask counts) b = sym (append-nil (on_link links from b))
put_own from links (Told ask how) b = sym (append-nil (on_link links from b))

put_else : (from : List ℕ) (links : Links LinkMsg) (out : Out) (a b : List ℕ) → a ≢ from → on_link (put_out from links out) a b ≡ on_link links a b
unfolding put_out
put_else from links (Link to message) a b ne =
    on_link-sent links from to a b message
    ∙ ap (λ (s : Bool). on_link links a b ++ cond s (message ∷ []) []) (another_link a b from to (inl ne))
    ∙ append-nil (on_link links a b)
put_else from links (Client conn bytes) a b ne = refl
put_else from links (Close conn) a b ne = refl
put_else from links (Mark ask counts) a b ne = refl
put_else from links (Told ask how) a b ne = refl

-- on a link of the node stands behind the others what it sends there
pub puts_own : (from : List ℕ) (links : Links LinkMsg) (outs : List Out) (b : List ℕ)
    → on_link (put_all from links outs) from b ≡ on_link links from b ++ messages_to b outs
unfolding put_all
puts_own from links [] b = sym (append-nil (on_link links from b))
puts_own from links (out ∷ outs) b =
    puts_own from (put_out from links out) outs b
    ∙ ap (λ (l : List LinkMsg). l ++ messages_to b outs) (put_own from links out b)
    ∙ append_assoc (on_link links from b) (message_to b out) (messages_to b outs)

-- and each link of another node is left
pub puts_else : (from : List ℕ) (links : Links LinkMsg) (outs : List Out) (a b : List ℕ) → a ≢ from → on_link (put_all from links outs) a b ≡ on_link links a b
unfolding put_all
puts_else from links [] a b ne = refl
puts_else from links (out ∷ outs) a b ne = puts_else from (put_out from links out) outs a b ne ∙ put_else from links out a b ne
