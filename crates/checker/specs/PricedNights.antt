-- The night that a struct of costs, bars and tested prices is.
use Rattle.assignment.specs.Pairings.{Night}
use Rattle.bars.specs.Barred.{night_of}
use Rattle.checker.specs.declared.prices.PricedNight.{PricedNight}

abbrev pub night : PricedNight → Night
night priced = night_of priced.m priced.n priced.costs.now priced.bars.now
