-- What holds of all elements and all links of a line.
use Rattle.std.proofs.Common.{◌≡◌, ◌<◌, ◌+◌, List, [], ◌∷◌, ◌++◌, length, All, Result, Ok, Err, IfOk, ap, subst, arith, length-append}
use Rattle.std.proofs.lemmas.List.{length-map}
use Rattle.std.proofs.Math.ListN.{get_or-map}
use Rattle.graph_order.specs.Forward.{count_of}
use Rattle.graph_order.specs.declared.link.Link.{Link}
use Rattle.graph_core.specs.Asked.{Declared}
use Rattle.graph_core.specs.Comes.{Comes}
use Rattle.graph_core.specs.Elements.{Made, ElementsCome}
use Rattle.graph_core.specs.Links.{AreOrdered, all_links, way_of}
use Rattle.graph_core.specs.declared.fault.BuildFault.{BuildFault}
use Rattle.graph_core.specs.declared.links.Links.{Links}
use Rattle.graph_pads.specs.declared.pad.PadLink.{PadLink}

counted : (made : List Made) (y : Made) (d : Declared) (ds : List Declared) (answer : Result (List Made) BuildFault) → IfOk answer (λ ms. length ms ≡ length (made ++ y ∷ []) + length ds) → IfOk answer (λ ms. length ms ≡ length made + length (d ∷ ds))
counted made y d ds (Ok ms) h = omega (arith, h, length-append made (y ∷ []))
counted made y d ds (Err fault) h = tt

all_counted : (made : List Made) (ds : List Declared) (answer : Result (List Made) BuildFault) → ElementsCome made ds answer → IfOk answer (λ ms. length ms ≡ length made + length ds)
all_counted made ds answer (Comes.all ms) = omega arith
all_counted made ds answer (Comes.more ms d y rest a makes comes) = counted made y d rest answer (all_counted (made ++ y ∷ []) rest answer comes)
all_counted made ds answer (Comes.stop ms d rest fault why) = tt

-- each declared element is made
pub each_made : (ds : List Declared) (made : List Made) → ElementsCome [] ds (Ok made) → length ds ≡ length made
each_made ds made comes = let counted = all_counted [] ds (Ok made) comes in omega (arith, counted)

-- each link goes from an element to an element
module _ (made : List Made) (links : Links) (ordered : AreOrdered made links) where
  pub from_elements : All (λ (link : PadLink). link.source.element < length made) (all_links links)
  from_elements = λ k d within.
      let all = subst (λ (ws : List Link). All (λ (w : Link). w.from < count_of links.order) ws) ordered.ways links.order.from in
      let way = all k (way_of d) (omega (arith, within, length-map (all_links links) way_of)) in
      omega (arith, ordered.count, way, ap (λ (w : Link). w.from) (get_or-map way_of (all_links links) k d))

  pub to_elements : All (λ (link : PadLink). link.sink.element < length made) (all_links links)
  to_elements = λ k d within.
      let all = subst (λ (ws : List Link). All (λ (w : Link). w.to < count_of links.order) ws) ordered.ways links.order.to in
      let way = all k (way_of d) (omega (arith, within, length-map (all_links links) way_of)) in
      omega (arith, ordered.count, way, ap (λ (w : Link). w.to) (get_or-map way_of (all_links links) k d))
