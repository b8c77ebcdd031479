use Rattle.std.proofs.Common.{refl}
use Rattle.lryacc.specs.declared.dialects.Dialect.TheVariants.{Bison, Grmtools}
use Rattle.lryacc.specs.Directives.{form_of}
use Rattle.lryacc.proofs.directives.form_of.Goals as goal

pub returns-in-Some : goal.returns-in-Some
unfolding form_of
returns-in-Some c =
    rw c.in-Bison.is (c.in-Some.ensures Bison
    (refl, (refl, (refl, (refl, (refl, (refl, (refl, (refl, (refl, (refl, (refl, (refl, (refl, (refl, (refl, (refl, (refl, (refl, (refl, (refl, (refl, (refl, (refl, (refl, (refl, (refl, (refl, (refl, (refl, (refl, (refl, (refl, (refl, (refl, (refl, (refl, (refl, (refl, (refl, (refl, (refl, (refl, (refl, (refl, (refl, (refl, tt)))))))))))))))))))))))))))))))))))))))))))))))

pub returns-in-None : goal.returns-in-None
unfolding form_of
returns-in-None c = rw c.in-Bison.is (c.form_in-in-None.ensures Bison (refl, (refl, (refl, (refl, (refl, (refl, (refl, (refl, (refl, tt))))))))))

pub returns-in-Grmtools : goal.returns-in-Grmtools
unfolding form_of
returns-in-Grmtools c = rw c.in-Grmtools.is (c.form_in-in-Grmtools.ensures Grmtools (refl, (refl, (refl, (refl, (refl, (refl, (refl, (refl, (refl, (refl, (refl, (refl, (refl, tt))))))))))))))
