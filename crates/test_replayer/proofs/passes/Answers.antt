-- Case by case: what the call promises is what is promised here.
use Rattle.test_replayer.proofs.passes.Goals as goal

pub returns-in-Listing : goal.returns-in-Listing
returns-in-Listing c = rw c.in-Listing.is c.lists.ensures

pub returns-in-HeaderListing : goal.returns-in-HeaderListing
returns-in-HeaderListing c = rw c.in-HeaderListing.is c.passes_header.ensures

pub returns-in-Report : goal.returns-in-Report
returns-in-Report c = rw c.in-Report.is c.passes_header-in-Report.ensures

pub returns-in-Numbers : goal.returns-in-Numbers
returns-in-Numbers c = rw c.in-Numbers.is c.passes_header-in-Numbers.ensures

pub returns-in-Sum : goal.returns-in-Sum
returns-in-Sum c = rw c.in-Sum.is c.sums.ensures
